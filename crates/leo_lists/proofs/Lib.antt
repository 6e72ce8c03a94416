mod Links
mod Chains
mod Pushing
mod Unlinking
mod Growing
mod Calls
