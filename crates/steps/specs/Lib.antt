-- One step.
pub mod Walking
