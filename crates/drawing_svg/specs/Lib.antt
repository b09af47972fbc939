-- `script_sheet` in Sheet is the sheet of a script. It rests on Elements in the crate `drawing_elements`, on Places in `topology_places` and on
-- Template in `text_templates`.
pub mod Sheet
