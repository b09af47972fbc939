-- `diagnosis` in Diagnosis says why a drawing has no map. What it names is a misfit, in Misfit.
pub mod Misfit
pub mod Diagnosis
