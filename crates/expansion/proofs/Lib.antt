-- Laws of the terms of a product.
pub mod Bursts
pub mod Expanding
