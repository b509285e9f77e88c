mod Readings
mod Forms
mod Names
mod Firsts
