mod Stands
mod Back
mod Overs
mod Sizes
mod Ends
mod Feeds
