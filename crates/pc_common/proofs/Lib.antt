pub mod Bools
pub mod Places
pub mod Elements
pub mod Nodes
pub mod Chains
pub mod GeneratedWorlds
pub mod Pieces
pub mod Rises
pub mod Writes
pub mod Rooms
pub mod RoomPieces
mod HeldLemmas
mod Moves
