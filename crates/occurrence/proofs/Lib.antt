pub mod SearchLaws
pub mod PartsLaws
