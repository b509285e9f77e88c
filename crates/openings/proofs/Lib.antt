mod Digits
mod Networks
