pub mod RuleFault
