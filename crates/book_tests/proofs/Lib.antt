pub mod PassesLaws
