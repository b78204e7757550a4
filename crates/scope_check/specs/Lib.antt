pub mod Bindings
pub mod FirstFault
pub mod Laws
pub mod QueryFaults
pub mod Renaming
pub mod Closings
pub mod PassedFaults
pub mod PartsOf
