mod Numbers
mod Named
mod Items
mod Runs
