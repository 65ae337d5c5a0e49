pub mod Products
pub mod Nearest
pub mod HalfSums
pub mod Sizes
pub mod Coordinates
pub mod Printed
pub mod Moved
pub mod Origins
