mod Agreeing
mod Alike
mod Decided
mod Places
mod TableTold
