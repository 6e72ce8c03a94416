pub mod Ready
mod Overs
mod Normals
mod Answering
