pub mod TableTold
