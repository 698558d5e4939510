pub mod PrintableTexts
