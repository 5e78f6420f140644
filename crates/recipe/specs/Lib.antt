pub mod Draws
pub mod Recipes
pub mod Runs
pub mod Worked
