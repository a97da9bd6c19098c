mod Standing
mod Carried
mod Ran
mod Stilled
mod Failed
mod Polled
mod Answered
mod Rooted
