pub mod OpenedBooks
pub mod OpenedNetworks
