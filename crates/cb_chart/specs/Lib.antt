pub mod Bars
pub mod Arrows
pub mod Sights
pub mod Charts
pub mod Layouts
pub mod Signs
pub mod Pictures
