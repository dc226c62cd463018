pub mod Weights
pub mod RuleLaws
pub mod SlotLaws
