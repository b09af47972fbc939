-- `output` in Output is the text that a script prints. It rests on Execute, on Reading in the crate `script_commands` and on Lines in `script_lines`.
pub mod Execute
pub mod Output
pub mod InnerParts
