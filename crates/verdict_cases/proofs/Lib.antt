pub mod RootPieces
