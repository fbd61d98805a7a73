-- The checked profile.
pub mod Profile
