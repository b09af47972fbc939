pub mod OpenedTree
