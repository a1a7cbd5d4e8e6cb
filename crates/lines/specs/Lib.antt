pub mod LineTexts
