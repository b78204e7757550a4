pub mod FirstBytes
pub mod PieceByPiece
pub mod FirstLine
pub mod OneVerdict
pub mod VerifyOutcomes
pub mod OneAnswer
pub mod LiftedOutcomes
