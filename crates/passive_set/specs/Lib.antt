pub mod DirectSet
pub mod Feeding
pub mod PortSets
pub mod Ports
