pub mod Residues
pub mod Results
