mod Same
mod Fronts
mod Noted
mod Accepted
mod Stopping
mod Found
mod Lists
mod Runs
