-- The product.
pub mod Products
