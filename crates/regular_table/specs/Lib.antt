-- `Prints` in Table is the text of buychip. It rests on Depth and Regular in the crate `regular_model`, Gathering in `script_setup`, Lines in
-- `script_lines`, Template in `text_templates` and Text in `text`.
pub mod Table
pub mod InnerTable
