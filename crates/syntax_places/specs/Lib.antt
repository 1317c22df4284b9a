pub mod Pieces
pub mod ModulePieces
pub mod Walk
