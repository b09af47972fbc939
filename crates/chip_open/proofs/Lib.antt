pub mod ChipFault
