pub mod KeySheets
