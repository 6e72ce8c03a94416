mod Numbers
mod Filters
mod Removing
mod Adding
mod Looking
mod Walking
mod Calls
