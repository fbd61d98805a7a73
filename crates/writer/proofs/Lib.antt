-- What the writer's promises settle.
pub mod Settled
