-- Nothing here has to be believed: `Strip` is what the writer copies words from, shown to hold
-- them.
pub mod Strip
