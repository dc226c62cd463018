mod Rows
pub mod PieceLaws
pub mod ColumnLaws
pub mod RecordLaws
