pub mod Nodes
pub mod SortsOfNodes
pub mod Paths
pub mod Concluding
pub mod Instancing
pub mod Unique
