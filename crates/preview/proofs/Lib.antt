pub mod PreviewForetells
