mod Moves
mod Ways
mod Counting
