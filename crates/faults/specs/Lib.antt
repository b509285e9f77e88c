pub mod Faults
pub mod FaultText
