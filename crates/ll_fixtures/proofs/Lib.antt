pub mod AddingLayers
