mod Bounds
mod Rows
