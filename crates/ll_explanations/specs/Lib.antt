pub mod Lacked
pub mod Confined
pub mod Meant
pub mod Meanings
pub mod InTree
pub mod Adding
pub mod Asking
pub mod Explained
