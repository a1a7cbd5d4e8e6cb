pub mod ResultTexts
