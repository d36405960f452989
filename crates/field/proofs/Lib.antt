-- The laws that the proofs of the functions share, and what a modeller expects of the operations.
pub mod Operands
pub mod Signs
pub mod Results
pub mod Determined
pub mod Laws
