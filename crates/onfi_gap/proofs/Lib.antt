mod Pieces
mod Classes
mod Bounding
