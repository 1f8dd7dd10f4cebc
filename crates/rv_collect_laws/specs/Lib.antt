-- Which sections stay: the least set that holds those with which it begins and, with each section.
pub mod Graph
