-- What a reader must believe of the frame and of the writer. `Putting` is not among it: it is what
-- the writer's loops do, and the writer's own promise does not name it.
pub mod Outcome
pub mod Frame
pub mod Write
pub mod Putting
