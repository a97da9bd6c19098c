mod Ascending
mod Shown
mod Rendered
mod Put
