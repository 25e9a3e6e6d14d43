-- Lists the definitions of orders, of texts of numbers, and of equal values.
pub mod Floats
pub mod NumberTexts
pub mod Orders
pub mod Sameness
pub mod SizeOrders
