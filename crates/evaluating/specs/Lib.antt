pub mod FunctionPlaces
