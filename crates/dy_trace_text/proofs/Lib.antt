mod Lines
mod Pieces
