-- Laws of the product.
pub mod Products
pub mod Determined
