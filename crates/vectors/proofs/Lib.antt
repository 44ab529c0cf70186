mod Selected
