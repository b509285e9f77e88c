pub mod Field
pub mod Aes
pub mod Words
pub mod Keyed
pub mod Counter
pub mod Cmac
pub mod MacKey
